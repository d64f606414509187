mod Beside
mod Coming
mod Worked
mod Ended
mod Refused
