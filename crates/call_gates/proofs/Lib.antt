pub mod KnownRecords
