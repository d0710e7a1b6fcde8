mod Numbers
mod Places
mod Texts
mod Faults
