mod Listed
mod Parts
mod Places
mod Halos
mod FreeRuns
mod ShownNumbers
mod Pushed
mod OnRanks
