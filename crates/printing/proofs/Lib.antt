mod Telling
mod Writing
