mod LightMade
