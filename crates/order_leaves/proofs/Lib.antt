pub mod TakenSlots
