pub mod PartsCut
