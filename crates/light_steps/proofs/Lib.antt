mod Rays
