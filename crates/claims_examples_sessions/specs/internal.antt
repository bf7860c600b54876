pub mod JobTable
pub mod SessionTable
