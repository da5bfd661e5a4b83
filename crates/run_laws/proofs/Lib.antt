mod HidingLemmas
mod PlaceLemmas
mod StopLemmas
