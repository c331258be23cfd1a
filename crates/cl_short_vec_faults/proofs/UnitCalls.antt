-- Where no node of a tree is at fault, however it is judged, wherever none of another tree is: no node of it is, by its
-- own calls.
use Rattle.std.proofs.Common.{◌≡◌, ℕ, zero, suc, nat_eq, List, [], ◌∷◌, length, Bool, true, false, ◌&&◌, ◌||◌, refl}
use Rattle.std.proofs.Common.{sym}
use Rattle.std.proofs.Common.{◌∙◌, arith}
use Rattle.std.proofs.lemmas.Bool.{false≢true}
use Rattle.std.proofs.lemmas.Bool.Decides.{nat_tests}
use Rattle.std.specs.List.{list_any}
use Rattle.cl_model.specs.Lists.{Each, IsOneOf}
use Rattle.cl_tree.specs.Syntax.{Syntax}
use Rattle.cl_meaning.specs.declared.fault.Fault.{Fault}
use Rattle.cl_meaning.specs.declared.kind.Role.TheVariants as roles
use Rattle.cl_meaning.specs.Environment.{Env}
use Rattle.cl_meaning.specs.Visible.{Node, in_order}
use Rattle.cl_meaning.specs.Faults.{Asked, Call, AllSound, at_fault, looked, leads, leads_back, calls_of, missing_of}
use Rattle.cl_check_sound.specs.Sound.{SoundTree}
use Rattle.cl_check_sound.proofs.Plain.{sound_tree}
use Rattle.cl_check_sound.proofs.Ends.{Edge}
use Rattle.cl_check_sound.proofs.Collected.{NotBack, none_back, edge_back, all_good}
use Rattle.cl_short_vec_faults.specs.SoundBut.{is_of_size, SoundBut}
use Rattle.cl_short_vec_faults.proofs.CallChains.{back_among}
use Rattle.cl_short_vec_faults.proofs.SoundNodes.{ButNode, but_nodes, each_of, with_calls, judged_again, but_back}
use Rattle.cl_short_vec_faults.proofs.SoundNodes.{but_missing, fault_kept}

-- ---- one call back

-- the call that leads from the second function back to the first one
abbrev back_call : ℕ → ℕ → List Call
back_call a b = record { caller = b; called = a } ∷ []

no_self : (n : ℕ) (calls : List Call) (x y : ℕ) → leads n calls x y ≡ false → nat_eq x y ≡ false
unfolding leads
no_self zero calls x y h = h
no_self (suc n) calls x y h = by (nat_eq x y) h
  where
    by : (b : Bool) → (b || list_any (λ (c : Call). nat_eq c.caller x && leads n calls c.called y) calls) ≡ false →
        b ≡ false
    by true h = absurd (false≢true (sym h))
    by false h = refl

-- a call that is neither of a function by itself nor between the two does not lead back by it
other_call : (a b from to : ℕ) → nat_eq to from ≡ false → (nat_eq from a && nat_eq to b) ≡ false →
    leads_back (back_call a b) to from ≡ false
unfolding leads
other_call a b from to h k = by (nat_eq b to) (nat_eq a from) refl refl (nat_eq to from) h
  where
    turned : nat_eq b to ≡ true → nat_eq a from ≡ true → (nat_eq from a && nat_eq to b) ≡ true
    turned e g = grind (arith, nat_tests)

    by : (c d : Bool) → nat_eq b to ≡ c → nat_eq a from ≡ d → (e : Bool) → e ≡ false →
        (e || ((c && d) || false)) ≡ false
    by true true x y e i = absurd (false≢true (sym k ∙ turned x y))
    by true false x y false i = refl
    by false d x y false i = refl
    by c d x y true i = absurd (false≢true (sym i))

calls_other : (a b : ℕ) (calls xs : List Call) → Each (NotBack calls) xs →
    list_any (λ (c : Call). nat_eq c.caller a && nat_eq c.called b) xs ≡ false → Each (NotBack (back_call a b)) xs
calls_other a b calls [] h k = tt
calls_other a b calls (c ∷ cs) h k =
    let r = by (nat_eq c.caller a && nat_eq c.called b) refl k in (
      other_call a b c.caller c.called (no_self (length calls) calls c.called c.caller h.0) r.0,
      calls_other a b calls cs h.1 r.1,
    )
  where
    by : (d : Bool) → (nat_eq c.caller a && nat_eq c.called b) ≡ d →
        (d || list_any (λ (c : Call). nat_eq c.caller a && nat_eq c.called b) cs) ≡ false →
        ((nat_eq c.caller a && nat_eq c.called b) ≡ false) ×
        (list_any (λ (c : Call). nat_eq c.caller a && nat_eq c.called b) cs ≡ false)
    by true e h = absurd (false≢true (sym h))
    by false e h = (e, h)

leads_there : (a b : ℕ) → leads_back (back_call a b) b a ≡ true
unfolding leads
leads_there a b = by (nat_eq b a) (nat_eq b b) (nat_eq a a) (let e : nat_eq b b ≡ true = grind (arith, nat_tests) in e)
    (let e : nat_eq a a ≡ true = grind (arith, nat_tests) in e)
  where
    by : (c d e : Bool) → d ≡ true → e ≡ true → (c || ((d && e) || false)) ≡ true
    by true d e i j = refl
    by false true true i j = refl
    by false true false i j = absurd (false≢true j)
    by false false e i j = absurd (false≢true i)

-- ---- two trees

-- what a tree is judged by: the kernel that is asked for, and its own calls
abbrev pub asked_of : (kernel : List ℕ) → Env → Syntax → Asked
asked_of kernel env t = record {
  kernel = kernel;
  calls = calls_of (in_order env roles.Other t []);
  missing = missing_of (in_order env roles.Other t []);
}

module _ (kernel : List ℕ) (env : Env) (t u : Syntax)
    (follows : (asked : Asked) → SoundTree asked env roles.Other t → SoundBut asked env roles.Other u)
    (sound : AllSound (asked_of kernel env t) (in_order env roles.Other t [])) where
  abbrev nodes : List Node
  nodes = in_order env roles.Other t []

  abbrev others : List Node
  others = in_order env roles.Other u []

  abbrev asked : Asked
  asked = asked_of kernel env t

  judged : (cs : List Call) → AllSound (with_calls asked cs) nodes → Each (ButNode (with_calls asked cs)) others
  judged cs s =
      let a = with_calls asked cs in
      but_nodes a env roles.Other u []
      (follows a (sound_tree a env roles.Other t [] (all_good a nodes s (λ q k. k))).0) tt

  but : Each (ButNode asked) others
  but = judged asked.calls sound

  -- each call of the other tree is one of the first
  calls_among : (a b : ℕ) → Edge (calls_of others) a b → Edge (calls_of nodes) a b
  calls_among a b h = by (list_any (λ (c : Call). nat_eq c.caller a && nat_eq c.called b) (calls_of nodes)) refl
    where
      by : (d : Bool) → list_any (λ (c : Call). nat_eq c.caller a && nat_eq c.called b) (calls_of nodes) ≡ d →
          d ≡ true
      by true e = refl
      by false e =
          let cs = back_call a b in
          let s = judged_again asked cs nodes sound
          (calls_other a b asked.calls (calls_of nodes) (none_back asked nodes sound) e) in
          let n = but_back (with_calls asked cs) others (judged cs s) in
          absurd (false≢true (sym (edge_back cs (calls_of others) a b n h) ∙ leads_there a b))

  pub tree_follows : (n : Node) → IsOneOf others n → (k : Fault) → is_of_size k ≡ false →
      at_fault (asked_of kernel env u) (looked n) k ≡ false
  tree_follows n i k e =
      fault_kept asked (asked_of kernel env u) refl
      (λ to from l. back_among (calls_of others) (calls_of nodes) calls_among (length (calls_of others)) from to l)
      (but_missing asked others but) (looked n) k ((each_of (ButNode asked) others n but i).0 k e)
