pub mod Calc
