pub mod RoundTripLaws
