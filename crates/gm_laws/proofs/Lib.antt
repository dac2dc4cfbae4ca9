mod Tally
pub mod Kit
mod Flats
mod Ids
pub mod Good
mod Routes
pub mod Adds
mod Aside
pub mod Grow
mod Keep
mod KeepVcpu
mod KeepCaller
mod Plans
mod Locks
mod LocksKeep
mod SafeChange
pub mod Touches
pub mod Lives
mod Folios
pub mod Fates
pub mod RuledIsRight
mod Rows
pub mod OneReadRuled
pub mod ConversionRuled
pub mod FlushPendingRuled
pub mod HeldPageRuled
pub mod MixedBlockRuled
mod Contents
mod Prefix
pub mod RightIsRuled
mod Stands
pub mod Readings
pub mod MoreReadings
pub mod OpenBrackets
pub mod Counted
pub mod WrongBodies
pub mod Fronts
pub mod Parts
pub mod MoveAndDeletionRuled
pub mod MarkedSlotRuled
mod Marks
pub mod QuietTouches
mod Closed
mod LooksKept
pub mod FlatFronts
pub mod PopulationAndCloseRuled
pub mod OneReadPlays
pub mod FlushPendingPlays
pub mod Frames
pub mod SlotsKeep
pub mod SmallSlots
pub mod TurnsKeep
pub mod BoundRanges
mod JudgedRows
mod OpenCalls
pub mod RowsSeen
pub mod Whole
