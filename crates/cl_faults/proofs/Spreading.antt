-- Marks that are added along calls.
use Rattle.std.proofs.Common.{ℕ, zero, suc, ◌<◌, ◌&&◌, not, nat_eq, Bool, true, false, List, [], ◌∷◌, length, map}
use Rattle.std.proofs.Common.{set, slice_get, Some, ◌≡◌, refl, sym, ap, ◌∙◌, length-set}
use Rattle.std.proofs.lemmas.Bool.{and_from, and_parts}
use Rattle.cl_meaning.specs.Faults.{Call}
use Rattle.cl_meaning.specs.declared.call.Call as rust
use Rattle.cl_meaning.specs.Calls.{call_of}
use Rattle.cl_faults.specs.Reach.{marked, Spreads}
use Rattle.cl_faults.proofs.Reaching.{edge, or_left, or_right, number_same, sound_step, set_stays}

pub spreads_nothing : (calls : List Call) (m : List Bool) → Spreads calls m m
spreads_nothing calls m = record { sound = λ from s. s; stays = λ x h. h; within = refl }

pub spreads_on : (calls : List Call) (l m n : List Bool) → Spreads calls l m → Spreads calls m n → Spreads calls l n
spreads_on calls l m n a b = record {
  sound = λ from s. b.sound from (a.sound from s);
  stays = λ x h. b.stays x (a.stays x h);
  within = b.within ∙ a.within;
}

pub edge_at : (calls : List rust.Call) (i : ℕ) (c : rust.Call) → slice_get calls i ≡ Some c →
    edge (map call_of calls) c.caller c.called ≡ true
edge_at [] i c h = absurd cc
edge_at (d ∷ ds) zero c h =
    let s : d ≡ c = cc in
    ap (λ (x : rust.Call). edge (map call_of (d ∷ ds)) x.caller x.called) (sym s)
    ∙ or_left (nat_eq d.caller d.caller && nat_eq d.called d.called) (edge (map call_of ds) d.caller d.called)
    (and_from (nat_eq d.caller d.caller) (nat_eq d.called d.called) (number_same d.caller) (number_same d.called))
edge_at (d ∷ ds) (suc i) c h =
    or_right (nat_eq d.caller c.caller && nat_eq d.called c.called) (edge (map call_of ds) c.caller c.called)
    (edge_at ds i c h)

spreads_step : (calls : List rust.Call) (m : List Bool) (i : ℕ) (c : rust.Call) → slice_get calls i ≡ Some c →
    c.called < length m → marked m c.caller ≡ true → marked m c.called ≡ false →
    Spreads (map call_of calls) m (set m c.called true)
spreads_step calls m i c h b g k = record {
  sound = λ from s. sound_step (map call_of calls) from m c.caller c.called s b g k (edge_at calls i c h);
  stays = λ x r. set_stays m c.called x b r;
  within = length-set m c.called true;
}

not_marked : (b : Bool) → not b ≡ true → b ≡ false
not_marked true h = absurd cc
not_marked false h = refl

pub spreads_open : (calls : List rust.Call) (m : List Bool) (i : ℕ) (c : rust.Call) → slice_get calls i ≡ Some c →
    c.called < length m → (marked m c.caller && not (marked m c.called)) ≡ true →
    Spreads (map call_of calls) m (set m c.called true)
spreads_open calls m i c h b o =
    spreads_step calls m i c h b (and_parts (marked m c.caller) (not (marked m c.called)) o).0
    (not_marked (marked m c.called) (and_parts (marked m c.caller) (not (marked m c.called)) o).1)
