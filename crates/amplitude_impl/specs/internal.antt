pub mod Plottable
