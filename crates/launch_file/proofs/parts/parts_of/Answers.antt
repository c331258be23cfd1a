use Rattle.std.proofs.Common.{rules, arith, suc, ◌≡◌, ◌+◌, ◌<◌, ◌∙◌, length, ◌∷◌, ◌++◌, [], Some, option_map, map}
use Rattle.std.proofs.Common.{drop, ap, sym}
use Rattle.std.proofs.Math.Seq.{drop-cons}
use Rattle.std.proofs.lemmas.List.{map-append}
use Rattle.std.proofs.lemmas.List.Elements.{All-push, All-same}
use Rattle.toml.specs.View.{view, items_view}
use Rattle.toml.specs.Data.{as_table}
use Rattle.launch_file.specs.declared.format.Format.TheVariants.{Three}
use Rattle.launch_file.specs.Keys.{given}
use Rattle.launch_file.specs.Texts.{part_of}
use Rattle.launch_file.specs.Values.{HasOneLength, part_in, parts_of}
use Rattle.launch_file.proofs.Pushed.{before-pushed}
use Rattle.launch_file.proofs.parts.parts_of.Goals as goal

pub loop-value-preserved : goal.loop-value-preserved
loop-value-preserved c =
    let pushed : c.push.new.self.items ≡ c.loop-value.list.items ++ c.in-Some.part ∷ [] = search rules in
    let found : given (as_table (view c.value-item.result)) (part_in Three) ≡ Some (part_of c.in-Some.part) =
    search rules in
    let rest : drop c.loop-value.value-index c.args.items.now ≡ c.value-item.result ∷
    drop (c.loop-value.value-index + 1) c.args.items.now =
    (let lt : c.loop-value.value-index < length c.args.items.now = search rules in
    drop-cons c.args.items.now c.loop-value.value-index c.value-item.result lt ∙
    (ap (λ v. v ∷ drop (suc c.loop-value.value-index) c.args.items.now) (sym c.value-item.is) ∙
    (let next : suc c.loop-value.value-index ≡ c.loop-value.value-index + 1 = omega arith in
    ap (λ n. c.value-item.result ∷ drop n c.args.items.now) next))) in
    let one : HasOneLength (part_of c.in-Some.part) = rw c.in-Some.is at c.in_ok-part.ensures.length in
    record {
      same =
          c.loop-value.invariant.same
          ∙ (ap (λ vs. option_map (λ more. map part_of c.loop-value.list.items ++ more) (parts_of (items_view vs))) rest
          ∙ (before-pushed _ _ (map part_of c.loop-value.list.items)
          (parts_of (items_view (drop (c.loop-value.value-index + 1) c.args.items.now))) found
          ∙ ap (λ xs. option_map (λ more. xs ++ more)
          (parts_of (items_view (drop (c.loop-value.value-index + 1) c.args.items.now))))
          (sym (ap (map part_of) pushed ∙ map-append part_of c.loop-value.list.items (c.in-Some.part ∷ [])))));
      lengths =
          All-same (λ p. HasOneLength (part_of p)) c.push.new.self.items (c.loop-value.list.items ++ c.in-Some.part ∷
          []) pushed
          (All-push (λ p. HasOneLength (part_of p)) c.loop-value.list.items c.in-Some.part
          c.loop-value.invariant.lengths one);
    }
