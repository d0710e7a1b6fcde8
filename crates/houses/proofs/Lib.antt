mod Uses
mod News
mod Sames
