mod Counting
mod Days
mod Frames
mod Fronts
mod History
mod Reading
mod Whole
