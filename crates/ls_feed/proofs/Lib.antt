mod Cells
mod Replying
mod Passing
mod Acting
mod Going
mod Reading
mod Examples
