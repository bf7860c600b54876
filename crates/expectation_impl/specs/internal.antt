pub mod ValueNumbers
