-- Demand 2, stated of the calls, and proved from their contracts.
pub mod RoundTrip
pub mod RoundTripLaws
pub mod ShownLaws
pub mod SheetTrip
pub mod SheetTripLaws
pub mod Cuts
