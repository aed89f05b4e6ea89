-- 02, W1: the places of completions, of every call and of a list of calls.
pub mod PlacesCalls
pub mod PlacesRun
