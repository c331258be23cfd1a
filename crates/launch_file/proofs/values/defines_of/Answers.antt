use Rattle.std.proofs.Common.{rules, ◌≡◌, ◌∙◌, ◌++◌, ◌∷◌, [], List, Some, All, option_map, ap, sym, subst, string_bytes}
use Rattle.std.proofs.lemmas.List.Elements.{All-push}
use Rattle.cl_prep.specs.declared.prep.Define.{Define}
use Rattle.toml.specs.View.{view, members_view}
use Rattle.launch_file.specs.Values.{define_of, defines_of, HasNumber}
use Rattle.launch_file.proofs.Pushed.{before-pushed}
use Rattle.launch_file.proofs.values.defines_of.Goals as goal

-- src/values.rt:246:5
pub loop-key-preserved : goal.loop-key-preserved
loop-key-preserved c =
    let e : c.loop-key.key-iterator ≡ (c.in-Some.key.now, c.in-Some.value.now) ∷ c.next.new.self = search rules in
    let d : define_of (string_bytes c.in-Some.key.now) (view c.in-Some.value.now) ≡ Some c.in-Some-2.define =
    search rules in
    let p : c.push.new.self.items ≡ c.loop-key.list.items ++ c.in-Some-2.define ∷ [] = search rules in
    let n : HasNumber c.in-Some-2.define = search rules in
    record {
      same = c.loop-key.invariant.same
          ∙ (ap (λ ms. option_map (λ more. c.loop-key.list.items ++ more) (defines_of (members_view ms))) e
          ∙ (before-pushed _ _ c.loop-key.list.items (defines_of (members_view c.next.new.self)) d
          ∙ ap (λ xs. option_map (λ more. xs ++ more) (defines_of (members_view c.next.new.self))) (sym p)));
      numbers = subst (λ (ds : List Define). All HasNumber ds) (sym p)
          (All-push HasNumber c.loop-key.list.items c.in-Some-2.define c.loop-key.invariant.numbers n);
    }
