mod Deciding
mod Gone
mod Handing
