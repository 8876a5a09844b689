-- Document 01's example, computed: the bytes of its six operations, and every byte that is printed. From the first state of the
-- session program itself. Assumes nothing.
use mathlib.Core.List.{List, [], ◌∷◌}
use mathlib.Core.Path.{◌≡◌, refl}
use Prim.Native.Nat.{ℕ}
use Rattle.build.specs.Building.{lowest_record, lowest_slots, place_node, payloads_to, fill_slot, fill_slots, node_on, node_with, build}
use Rattle.counters.specs.Counters.{one_more, raised_if, is_due, due_node, due_in, raise_elements, raise_conflicts, raise_node, raise}
use Rattle.delete.specs.Deleting.{delete_of}
use Rattle.insert.specs.Inserting.{scratch_fits, settled, standing, slot_above, tidy_of, pair_ends, sound_due, settle_at, settle_of, unless_full, insert_end, insert_of}
use Rattle.laws.specs.Bytes.{little_endian}
use Rattle.lines.specs.Kinds.{kind_of}
use Rattle.lines.specs.Lines.{digits, decimal, spaced, numbers, line}
use Rattle.listing.specs.Listing.{listing}
use Rattle.marks.specs.Used.{used_at, mark_at, mark_run, first_from, first_unused, free_run, lowest_from, lowest_run}
use Rattle.model.specs.Choice.{slots_for, count_at, spread_below, spread, model_at, least_from, t_of, empty_model, model_of, choice_of}
use Rattle.model.specs.Groups.{keys_to}
use Rattle.model.specs.Slots.{slot_of, in_range}
use Rattle.operations.specs.Printing.{printed, answer_line, element_line, element_lines, band_lines, end_line}
use Rattle.operations.specs.Sessions.{by_kind, session_from, session, start, session_of}
use Rattle.operations.specs.Stepping.{step_of}
use Rattle.pool.specs.Reading.{node_in, node_fits, node_at, slot_says, slot_at}
use Rattle.pool.specs.Writing.{put_node, put_data, put_child, zero_run}
use Rattle.rebuild.specs.Pairs.{pair_of, pair_if}
use Rattle.store.specs.Bands.{band_items, band_out, band_of}
use Rattle.store.specs.Calls.{search_end, search_of, lookup_of}
use Rattle.store.specs.Handles.{limits_hold, pools_are, handle_fits}
use Rattle.store.specs.Loading.{fault_from, first_fault, emptied, load_fits, load_built, load_tree, load_list, load_of}
use Rattle.walk.specs.Events.{first_in, last_in, count_in, in_slot, in_slots, in_record, too_long, events_at, events_of}
use Rattle.walk.specs.Items.{may_enter, may_hold, items}
use Rattle.walk.specs.Walks.{step_in, key_slot, step_good, step_at, step_of as walk_step, after, walk_from, walk_of}

-- insert 10 (payload 1), insert 20 (2), lookup 10, insert 10, delete 30, band 0 to 20
abbrev example : List ℕ
example =
    1 ∷ 10 ∷ 0 ∷ 0 ∷ 0 ∷ 0 ∷ 0 ∷ 1 ∷ 0 ∷ 0 ∷ 0 ∷ 0 ∷ 0 ∷ 0 ∷ 0
    ∷ 1 ∷ 20 ∷ 0 ∷ 0 ∷ 0 ∷ 0 ∷ 0 ∷ 2 ∷ 0 ∷ 0 ∷ 0 ∷ 0 ∷ 0 ∷ 0 ∷ 0
    ∷ 3 ∷ 10 ∷ 0 ∷ 0 ∷ 0 ∷ 0 ∷ 0
    ∷ 1 ∷ 10 ∷ 0 ∷ 0 ∷ 0 ∷ 0 ∷ 0 ∷ 7 ∷ 0 ∷ 0 ∷ 0 ∷ 0 ∷ 0 ∷ 0 ∷ 0
    ∷ 2 ∷ 30 ∷ 0 ∷ 0 ∷ 0 ∷ 0 ∷ 0
    ∷ 4 ∷ 0 ∷ 0 ∷ 0 ∷ 0 ∷ 0 ∷ 0 ∷ 20 ∷ 0 ∷ 0 ∷ 0 ∷ 0 ∷ 0 ∷ []

abbrev prints : List ℕ
prints =
    49 ∷ 32 ∷ 48 ∷ 32 ∷ 48 ∷ 32 ∷ 48 ∷ 10
    ∷ 49 ∷ 32 ∷ 48 ∷ 32 ∷ 49 ∷ 32 ∷ 48 ∷ 10
    ∷ 51 ∷ 32 ∷ 48 ∷ 32 ∷ 49 ∷ 32 ∷ 50 ∷ 10
    ∷ 49 ∷ 32 ∷ 53 ∷ 10
    ∷ 50 ∷ 32 ∷ 54 ∷ 10
    ∷ 52 ∷ 32 ∷ 48 ∷ 32 ∷ 50 ∷ 32 ∷ 48 ∷ 10
    ∷ 61 ∷ 32 ∷ 49 ∷ 48 ∷ 32 ∷ 49 ∷ 10
    ∷ 61 ∷ 32 ∷ 50 ∷ 48 ∷ 32 ∷ 50 ∷ 10 ∷ []

example_prints : session_of example ≡ prints
unfolding session_of start session session_from by_kind step_of kind_of little_endian printed answer_line element_line element_lines band_lines end_line digits decimal spaced numbers line slots_for count_at spread_below spread model_at least_from t_of empty_model model_of choice_of slot_of keys_to used_at mark_at mark_run first_from first_unused free_run lowest_from lowest_run put_node put_data put_child zero_run lowest_record lowest_slots place_node payloads_to fill_slot fill_slots node_on node_with build limits_hold pools_are fault_from first_fault emptied load_fits load_built load_tree load_list load_of in_range handle_fits node_in node_fits node_at slot_says slot_at first_in last_in count_in in_slot in_slots in_record too_long events_at events_of may_enter may_hold items band_items listing band_out band_of step_in key_slot step_good step_at walk_step after walk_from walk_of search_end search_of lookup_of delete_of one_more raised_if is_due due_node due_in raise_elements raise_conflicts raise_node raise scratch_fits settled standing slot_above tidy_of pair_ends sound_due settle_at settle_of unless_full insert_end insert_of pair_of pair_if
example_prints = refl
