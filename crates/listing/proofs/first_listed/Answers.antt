-- `listing::first_listed` meets its contract: the first item, and from it on to the next between u and v (proofs/Landings). Assumes nothing.
use Rattle.listing.proofs.Landings.{left-found, lands_of}
use Rattle.listing.proofs.first_listed.Goals as goal

pub returns : goal.returns
returns c =
    lands_of (left-found _ _ _ c.first_item-first.result _ _ _ _ c.first_item-first.ensures) c.to_listed.ensures
