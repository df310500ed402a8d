mod Wording
mod Ended
mod Weaker
