mod Moved
mod Rising
mod Statuses
