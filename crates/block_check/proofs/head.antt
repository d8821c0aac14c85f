mod Lookup
