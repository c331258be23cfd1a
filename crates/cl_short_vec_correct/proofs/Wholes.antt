-- A statement that sets a vector does its steps: what is in hand there.
use Rattle.std.proofs.Common.{◌≡◌, ℕ, List, [], ◌++◌, Option, Bool, true, false, not, ◌&&◌, if◌then◌else◌, refl}
use Rattle.std.proofs.Common.{sym, subst}
use Rattle.std.proofs.lemmas.Bool.{false≢true}
use Rattle.wg_num.specs.declared.types.Place.{Place}
use Rattle.wg_num.specs.declared.types.Bin.{Bin}
use Rattle.cl_model.specs.Tree.{Function, Program}
use Rattle.cl_tree.specs.declared.tree.Form.TheVariants as forms
use Rattle.cl_tree.specs.Syntax.{Syntax, node, none, more}
use Rattle.cl_meaning.specs.Spelling.{setting_in}
use Rattle.cl_meaning.specs.declared.kind.Role.{Role}
use Rattle.cl_meaning.specs.Environment.{Env, Variable, Array}
use Rattle.cl_meaning.specs.Visible.{behind}
use Rattle.cl_meaning.specs.Faults.{Asked}
use Rattle.cl_check_sound.specs.Shape.{IsExpressionOf}
use Rattle.cl_check_sound.specs.Sound.{SoundTree}
use Rattle.cl_short_vec.specs.declared.nodes.Span.{Span}
use Rattle.cl_short_vec.specs.declared.roles.Role as vector_roles
use Rattle.cl_short_vec.specs.declared.roles.Role.TheVariants.{Free, Used, Target, Whole}
use Rattle.cl_short_vec.specs.Kinds.{Names, is_vector}
use Rattle.cl_short_vec.specs.Kinds as kinds
use Rattle.cl_short_vec.specs.Marks.{kind_at, marked, marked_parts}
use Rattle.cl_short_vec.specs.Order.{operator_in}
use Rattle.cl_short_vec.specs.Roles.{role_of}
use Rattle.cl_short_vec.specs.Faults.{right_fits, least, refusal_at, refusals, refusals_in, misplaced, no_component}
use Rattle.cl_short_vec.specs.Faults.{types_differ}
use Rattle.cl_short_vec.specs.Scalar.{scalar}
use Rattle.cl_short_vec.specs.Unit.{set_block, scalarised}
use Rattle.cl_short_vec_correct.specs.Sources.{Sourced}
use Rattle.cl_short_vec_correct.specs.Each.{SettingDoes, Throughout}
use Rattle.cl_short_vec_correct.proofs.Stands.{Stands, Ends, Locals}
use Rattle.cl_short_vec_correct.proofs.Forms.{nothing_front, nothing_behind, not_nothing, expression_names, Does}

-- ---- what is not refused

pub least_nothing : (token : ℕ) (a b c : Bool) → least token a b c ≡ [] → (a ≡ false) × (b ≡ false) × (c ≡ false)
least_nothing token true b c e = absurd (not_nothing _ [] e)
least_nothing token false true c e = absurd (not_nothing _ [] e)
least_nothing token false false true e = absurd (not_nothing _ [] e)
least_nothing token false false false e = (refl, refl, refl)

-- an assignment that is the whole of a statement
abbrev assign : List ℕ → (f l : ℕ) → (a b : Syntax) → Syntax
assign w f l a b = node forms.AssignNode w f l (more a (more b none))

abbrev simple : List ℕ → (f l : ℕ) → Syntax → Syntax
simple w f l e = node forms.SimpleNode w f l (more e none)

whole_stays : (names : Names) (w : List ℕ) (f l : ℕ) (e : Syntax) →
    refusals Free (marked names (simple w f l e)) ≡ [] → refusals Whole (marked names e) ≡ []
unfolding refusals refusals_in role_of marked marked_parts
whole_stays names w f l e r =
    let m = marked names (simple w f l e) in
    nothing_front (refusals Whole (marked names e)) []
    (nothing_front (refusals Whole (marked names e) ++ []) (refusal_at Free m) r)

either_role : (z : Bool) (r s : vector_roles.Role) → z ≡ true → (if z then r else s) ≡ r
either_role true r s e = refl
either_role false r s e = absurd (false≢true e)

record Stays (names : Names) (w : List ℕ) (a b : Syntax) : Type 0 where
  target : refusals Target (marked names a) ≡ []
  value : refusals Used (marked (kinds.behind names a) b) ≡ []
  fits : right_fits (setting_in w) (kind_at (marked names a)) (kind_at (marked (kinds.behind names a) b)) ≡ true

fits_by : (z y : Bool) → z ≡ true → (z && not y) ≡ false → y ≡ true
fits_by true true e h = refl
fits_by true false e h = absurd (false≢true (sym h))
fits_by false y e h = absurd (false≢true e)

assign_stays : (names : Names) (w : List ℕ) (f l : ℕ) (a b : Syntax) → is_vector (kind_at (marked names a)) ≡ true →
    refusals Whole (marked names (assign w f l a b)) ≡ [] → Stays names w a b
unfolding refusals refusals_in role_of marked marked_parts types_differ
assign_stays names w f l a b v r =
    let m = marked names (assign w f l a b) in
    let ma = marked names a in
    let mb = marked (kinds.behind names a) b in
    let ra = if is_vector (kind_at ma) then Target else Free in
    let rb = if is_vector (kind_at ma) then Used else Free in
    let both = nothing_front (refusals ra ma ++ (refusals rb mb ++ [])) (refusal_at Whole m) r in
    let last = nothing_behind (refusals ra ma ++ (refusals rb mb ++ [])) (refusal_at Whole m) r in
    let second = nothing_front (refusals rb mb) [] (nothing_behind (refusals ra ma) (refusals rb mb ++ []) both) in
    let types = (least_nothing f (misplaced Whole (assign w f l a b) (kind_at m)) (no_component Whole m)
    (is_vector (kind_at ma) && not (right_fits (setting_in w) (kind_at ma) (kind_at mb))) last).2 in
    record {
      target = subst (λ z. refusals z ma ≡ []) (either_role (is_vector (kind_at ma)) Target Free v)
          (nothing_front (refusals ra ma) (refusals rb mb ++ []) both);
      value = subst (λ z. refusals z mb ≡ []) (either_role (is_vector (kind_at ma)) Used Free v) second;
      fits = fits_by (is_vector (kind_at ma)) (right_fits (setting_in w) (kind_at ma) (kind_at mb)) v types;
    }

module _ (P : Program) (f : Function) (asked : Asked) (vars : List Variable) (arrs : List Array)
    (locals : Locals P f asked vars arrs) where
  taken : (z : Bool) (s t : Syntax) (Q : Syntax → Type 0) → z ≡ true → Q (if z then s else t) → Q s
  taken z s t Q e h = subst (λ x. Q (if x then s else t)) e h

  -- an assignment to a vector
  set_does : (names : Names) (env : Env) (sites : List Place) (role : Role) (s : Span) (w : List ℕ) (a b : Syntax)
      (st : Stands P f asked vars arrs names env) → (IsExpressionOf true (assign w 0 0 a b)) → Sourced a → Sourced b →
      is_vector (kind_at (marked names a)) ≡ true → Stays names w a b →
      SoundTree asked env role
      (set_block s (operator_in (setting_in w)) (marked names a) (marked (kinds.behind names a) b)) →
      Ends P f asked vars arrs (behind env
      (set_block s (operator_in (setting_in w)) (marked names a) (marked (kinds.behind names a) b))) →
      SettingDoes P env sites s (operator_in (setting_in w)) (marked names a) (marked (kinds.behind names a) b)
  set_does names env sites role s w a b st h sa sb v stays =
      subst Shown (sym (expression_names names a h.1)) shown stays.fits stays.value
    where
      o : Option Bin
      o = operator_in (setting_in w)

      Shown : Names → Type 0
      Shown n = right_fits (setting_in w) (kind_at (marked names a)) (kind_at (marked n b)) ≡ true →
          refusals Used (marked n b) ≡ [] → SoundTree asked env role (set_block s o (marked names a) (marked n b)) →
          Ends P f asked vars arrs (behind env (set_block s o (marked names a) (marked n b))) →
          SettingDoes P env sites s o (marked names a) (marked n b)

      shown : Shown names
      shown fits value sound ends = locals.setting names env sites s w a b (record {
        stands = st;
        target = h.1;
        value = h.2;
        setting = h.0;
        target_sourced = sa;
        value_sourced = sb;
        vector = v;
        fits = fits;
        target_stays = stays.target;
        value_stays = value;
        role = role;
        sound = sound;
        ends = ends;
      })

  pub whole_does : (names : Names) (env : Env) (role : Role) (w : List ℕ) (f' l : ℕ) (e : Syntax) →
      IsExpressionOf true e → Sourced e → refusals Free (marked names (simple w f' l e)) ≡ [] →
      Stands P f asked vars arrs names env →
      SoundTree asked env role (scalarised (marked names (simple w f' l e))) →
      Ends P f asked vars arrs (behind env (scalarised (marked names (simple w f' l e)))) →
      Does P names env (simple w f' l e)
  unfolding Throughout marked marked_parts scalarised
  whole_does names env role w f' l (node forms.AssignNode w' x y (more a (more b none))) h so r st s e sites = λ q.
      let span : Span = record { first = f'; last = l } in
      let block = set_block span (operator_in (setting_in w')) (marked names a) (marked (kinds.behind names a) b) in
      let plain = scalar (marked names (simple w f' l (assign w' x y a b))) in
      set_does names env sites role span w' a b st h so.1.0 so.1.1.0 q
      (assign_stays names w' x y a b q (whole_stays names w f' l (assign w' x y a b) r))
      (taken (is_vector (kind_at (marked names a))) block plain (λ z. SoundTree asked env role z) q s)
      (taken (is_vector (kind_at (marked names a))) block plain (λ z. Ends P f asked vars arrs (behind env z)) q e)
  whole_does names env role w f' l (node forms.AssignNode w' x y none) h so r st s e sites = absurd h
  whole_does names env role w f' l (node forms.AssignNode w' x y (more a none)) h so r st s e sites = absurd h
  whole_does names env role w f' l (node forms.AssignNode w' x y (more a (more b (more c cs)))) h so r st s e sites =
      absurd h
  whole_does names env role w f' l (node form w' x y none) h so r st s e sites = tt
  whole_does names env role w f' l (node form w' x y (more a none)) h so r st s e sites = tt
  whole_does names env role w f' l (node form w' x y (more a (more b none))) h so r st s e sites = λ q.
      absurd (false≢true q)
  whole_does names env role w f' l (node form w' x y (more a (more b (more c cs)))) h so r st s e sites = tt
