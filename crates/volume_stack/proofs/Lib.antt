mod Products
mod SumLemmas
