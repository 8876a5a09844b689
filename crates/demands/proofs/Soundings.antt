-- Every row of document 01's table holds, by computation of the definitions that the public functions are proved to meet.
-- Assumes nothing.
use mathlib.Core.Path.{refl}
use Rattle.build.specs.Building.{lowest_record, lowest_slots, place_node, payloads_to, fill_slot, fill_slots, node_on, node_with, build}
use Rattle.counters.specs.Counters.{one_more, raised_if, is_due, due_node, due_in, raise_elements, raise_conflicts, raise_node, raise}
use Rattle.insert.specs.Inserting.{scratch_fits, settled, standing, slot_above, tidy_of, pair_ends, sound_due, settle_at, settle_of, unless_full, insert_end, insert_of}
use Rattle.listing.specs.Listing.{listing}
use Rattle.marks.specs.Used.{used_at, mark_at, mark_run, first_from, first_unused, free_run, lowest_from, lowest_run}
use Rattle.model.specs.Choice.{slots_for, count_at, spread_below, spread, model_at, least_from, t_of, empty_model, model_of, choice_of}
use Rattle.model.specs.Groups.{keys_to}
use Rattle.model.specs.Slots.{slot_of, in_range}
use Rattle.pool.specs.Writing.{put_node, put_data, put_child, zero_run}
use Rattle.rebuild.specs.Pairs.{pair_of, pair_if}
use Rattle.sounding.specs.Studio.{depth_in_range, number_in_range, key_of, pack_of}
use Rattle.store.specs.Bands.{band_items, band_out, band_of}
use Rattle.store.specs.Calls.{search_end, search_of, lookup_of}
use Rattle.store.specs.Handles.{limits_hold, pools_are, handle_fits}
use Rattle.store.specs.Loading.{fault_from, first_fault, emptied, load_fits, load_built, load_tree, load_list, load_of}
use Rattle.pool.specs.Reading.{node_in, node_fits, node_at, slot_says, slot_at}
use Rattle.walk.specs.Events.{first_in, last_in, count_in, in_slot, in_slots, in_record, too_long, events_at, events_of}
use Rattle.walk.specs.Items.{may_enter, may_hold, items}
use Rattle.walk.specs.Walks.{step_in, key_slot, step_good, step_at, step_of, after, walk_from, walk_of}
use Rattle.demands.specs.Soundings.{All, table}

pub soundings : All table
unfolding slots_for count_at spread_below spread model_at least_from t_of empty_model model_of choice_of slot_of keys_to depth_in_range number_in_range key_of pack_of used_at mark_at mark_run first_from first_unused free_run lowest_from lowest_run put_node put_data put_child zero_run lowest_record lowest_slots place_node payloads_to fill_slot fill_slots node_on node_with build limits_hold pools_are fault_from first_fault emptied load_fits load_built load_tree load_list load_of in_range handle_fits node_in node_fits node_at slot_says slot_at first_in last_in count_in in_slot in_slots in_record too_long events_at events_of may_enter may_hold items band_items listing band_out band_of step_in key_slot step_good step_at step_of after walk_from walk_of search_end search_of lookup_of one_more raised_if is_due due_node due_in raise_elements raise_conflicts raise_node raise scratch_fits settled standing slot_above tidy_of pair_ends sound_due settle_at settle_of unless_full insert_end insert_of pair_of pair_if
soundings =
    ((refl, refl), ((refl, refl), ((refl, refl), ((refl, refl), ((refl, refl), ((refl, refl), ((refl, refl), ((refl, refl), (refl, (refl, (refl, (refl, (refl, (refl, (refl, (refl, (refl, (refl, (refl, ((refl, refl), ((refl, refl), (refl, tt))))))))))))))))))))))
