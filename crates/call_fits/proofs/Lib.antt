mod Apart
mod Short
mod Brought
mod Named
mod States
mod Misfit
