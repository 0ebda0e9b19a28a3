mod Bare
mod Numbers
mod Fronts
mod Layouts
mod Spelled
