mod Configured
