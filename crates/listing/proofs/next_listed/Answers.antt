-- `listing::next_listed` meets its contract: the next item, and from it on to the next between u and v (proofs/Landings). Assumes nothing.
use Rattle.listing.proofs.Landings.{left-found, lands_of}
use Rattle.listing.proofs.next_listed.Goals as goal

pub returns : goal.returns
returns c =
    lands_of (left-found _ _ _ c.next_item-next.result _ _ _ _ c.next_item-next.ensures) c.to_listed.ensures
