mod Amounts
mod Opened
