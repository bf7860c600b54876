pub mod PhaseLaws
pub mod PauliLaws
pub mod WordRows
