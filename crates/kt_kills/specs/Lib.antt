pub mod Writing
pub mod KilledNets
pub mod Starts
pub mod Standing
pub mod Fillers
pub mod Objects
pub mod WorkedKills
