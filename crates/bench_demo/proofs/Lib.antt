mod Payload
mod Serial
mod Shown
