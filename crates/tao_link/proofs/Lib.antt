mod Mended
