pub mod Accesses
pub mod ColumnsPut
pub mod Firsts
pub mod PairsPut
pub mod WaysPut
