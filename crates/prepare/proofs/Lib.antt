mod Charging
mod Planning
mod Meanings
mod ChargesPass
