mod Held
mod Sets
mod Cuts
mod Parts
mod Halves
mod Splices
