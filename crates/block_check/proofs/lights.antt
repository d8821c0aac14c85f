mod Lights
