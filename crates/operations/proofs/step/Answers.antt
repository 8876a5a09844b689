-- `operations::step` meets its contract: each operation by its law (proofs/Steps). Assumes nothing.
use Rattle.operations.proofs.Steps.{insert_steps, delete_steps, lookup_steps, band_steps, replace_steps}
use Rattle.operations.proofs.step.Goals as goal

pub returns-in-Insert-clause-at_after : goal.returns-in-Insert-clause-at_after
returns-in-Insert-clause-at_after c =
    insert_steps _ c.args.body.now _ _ _ _ c.key_at-key.ensures _ c.payload_at-payload.ensures c.in-Insert.is _ _ _ c.insert.ensures.handle_value c.insert.ensures.used_after c.insert.ensures.places_after c.insert.ensures.at_after

pub returns-in-Delete-clause-at_after : goal.returns-in-Delete-clause-at_after
returns-in-Delete-clause-at_after c =
    delete_steps _ c.args.body.now _ _ _ _ c.key_at-key-in-Delete.ensures c.in-Delete.is _ _ c.delete.ensures.handle_value c.delete.ensures.used_after c.delete.ensures.at_after

pub returns-in-Lookup-clause-at_after : goal.returns-in-Lookup-clause-at_after
returns-in-Lookup-clause-at_after c =
    lookup_steps _ c.args.body.now _ _ _ _ c.key_at-key-in-Lookup.ensures c.in-Lookup.is c.lookup-end.ensures.result_after

pub returns-in-Band-clause-at_after : goal.returns-in-Band-clause-at_after
returns-in-Band-clause-at_after c =
    band_steps _ c.args.body.now _ _ _ _ c.key_at-u.ensures _ c.key_at-v.ensures c.in-Band.is _ _ c.band-end.ensures.keys_after c.band-end.ensures.payloads_after c.band-end.ensures.result_after

pub returns-in-Replace-clause-at_after : goal.returns-in-Replace-clause-at_after
returns-in-Replace-clause-at_after c =
    replace_steps _ c.args.body.now _ _ _ _ c.key_at-key-in-Replace.ensures _ c.payload_at-payload-in-Replace.ensures c.in-Replace.is _ _ c.replace.ensures.handle_value c.replace.ensures.used_after c.replace.ensures.at_after
