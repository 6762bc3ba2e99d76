-- Lemmas of this crate.
mod Listed
mod Loading
mod MeetingOne
mod NeverLost
mod Noted
mod Numbered
mod Placed
mod RawNames
mod Renaming
mod Rounds
mod Showing
mod StillOpen
mod TypeMapsOf
mod Written
