mod Texels
