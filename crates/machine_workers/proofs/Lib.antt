pub mod CarriedOver
