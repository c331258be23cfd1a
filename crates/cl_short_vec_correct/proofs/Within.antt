-- Statements that stand in others.
use Rattle.std.proofs.Common.{◌≡◌, ℤ, Bool, false, List, [], ◌∷◌, refl, sym, ap, ◌∙◌, subst}
use Rattle.cl_model.specs.Tree.{Statement, Statements, Arms, empty, also, arm, no_arm}
use Rattle.cl_meaning.specs.Typed.{What, labelled, Piece}
use Rattle.cl_meaning.specs.Statements.{followed, alone, lines_of, body_of, arms_of}
use Rattle.cl_meaning.specs.Statements.{arms_by, arms_from}
use Rattle.cl_short_vec_correct.specs.Standing.{Within, here, behind, inside, InStatement, block, chosen, other}
use Rattle.cl_short_vec_correct.specs.Standing.{looped, switched, InArms, front, next}

-- ---- lists

pub followed_again : (a b c : Statements) → followed (followed a b) c ≡ followed a (followed b c)
followed_again empty b c = refl
followed_again (also s a) b c = ap (λ z. also s z) (followed_again a b c)

pub followed_nothing : (a : Statements) → followed a empty ≡ a
followed_nothing empty = refl
followed_nothing (also s a) = ap (λ z. also s z) (followed_nothing a)

-- where others stand behind, and where others stand in front
pub before_more : {ss : Statements} (us more : Statements) → Within ss us → Within ss (followed us more)
before_more {ss = ss} us more (here u r e) =
    here (followed us more) (followed r more) (ap (λ z. followed z more) e ∙ followed_again ss r more)
before_more us more (behind s vs w) = behind s (followed vs more) (before_more vs more w)
before_more us more (inside s vs i) = inside s (followed vs more) i

pub past : {ss : Statements} (ls us : Statements) → Within ss us → Within ss (followed ls us)
past empty us w = w
past (also s ls) us w = behind s (followed ls us) (past ls us w)

mutual
  -- what stands in what stands there stands there
  pub deeper : {a b : Statements} (c : Statements) → Within a b → Within b c → Within a c
  deeper {a = a} {b = b} c w (here u r e) = subst (λ z. Within a z) (sym e) (before_more b r w)
  deeper c w (behind s us v) = behind s us (deeper us w v)
  deeper c w (inside s us i) = inside s us (in_statement s w i)

  in_statement : {a b : Statements} (s : Statement) → Within a b → InStatement b s → InStatement a s
  in_statement s w (block us v) = block us (deeper us w v)
  in_statement s w (chosen site test us vs v) = chosen site test us vs (deeper us w v)
  in_statement s w (other site test us vs v) = other site test us vs (deeper vs w v)
  in_statement s w (looped site first test step t v) = looped site first test step t (deeper (alone t) w v)
  in_statement s w (switched site value arms i) = switched site value arms (in_arms arms w i)

  in_arms : {a b : Statements} (arms : Arms) → Within a b → InArms b arms → InArms a arms
  in_arms arms w (front ls d us more v) = front ls d us more (deeper us w v)
  in_arms arms w (next ls d us more i) = next ls d us more (in_arms more w i)

pub itself : (ss : Statements) → Within ss ss
itself ss = here ss empty (sym (followed_nothing ss))

-- the front and the rest of a list
pub front_within : (a b body : Statements) → Within (followed a b) body → Within a body
front_within a b body w = deeper body (here (followed a b) b refl) w

pub rest_within : (a b body : Statements) → Within (followed a b) body → Within b body
rest_within a b body w = deeper body (past a b (itself b)) w

-- what stands in a statement that stands there by itself
pub in_one : (ss : Statements) (s : Statement) (body : Statements) → InStatement ss s → Within (alone s) body →
    Within ss body
in_one ss s body i w = deeper body (inside s empty i) w

-- ---- arms

-- what stands for a statement, its labels aside, is one statement
abbrev pub IsOne : What → Type 0
IsOne w = lines_of w ≡ alone (body_of w)

abbrev pub AllOne : List Piece → Type 0
AllOne [] = Unit {0}
AllOne (p ∷ ps) = IsOne p.what × AllOne ps

abbrev pub AllWithin : Statements → List Piece → Type 0
AllWithin body [] = Unit {0}
AllWithin body (p ∷ ps) = Within (lines_of p.what) body × AllWithin body ps

-- arms from a piece on, by what it stands for
arms_case : (Q : Arms → Type 0) (ls : List ℤ) (d : Bool) (us : Statements) (w : What)
    (g : List ℤ → Bool → Statements → Arms) →
    ((ls' : List ℤ) (d' : Bool) (s : Statement) → w ≡ labelled ls' d' s → Q (arm ls d us (g ls' d' (alone s)))) →
    Q (g ls d (followed us (alone (body_of w)))) → Q (arms_by ls d us w g)
arms_case Q ls d us (labelled ls' d' s) g h k = h ls' d' s refl
arms_case Q ls d us w g h k = k

-- the statements of the first arm
first_arm : (ss : Statements) (ps : List Piece) (ls : List ℤ) (d : Bool) (us : Statements) → Within ss us →
    InArms ss (arms_from ls d us ps)
unfolding arms_from
first_arm ss [] ls d us w = front ls d us no_arm w
first_arm ss (p ∷ ps) ls d us w =
    arms_case (InArms ss) ls d us p.what (λ ls' d' us'. arms_from ls' d' us' ps)
    (λ ls' d' s e. front ls d us (arms_from ls' d' (alone s) ps) w)
    (first_arm ss ps ls d (followed us (alone (body_of p.what))) (before_more us (alone (body_of p.what)) w))

-- each statement of arms stands where what stands in the arms stands
abbrev Places : Statements → Arms → Type 0
Places body arms = (ss : Statements) → InArms ss arms → Within ss body

arms_all : (body : Statements) (ps : List Piece) (ls : List ℤ) (d : Bool) (us : Statements) → AllOne ps →
    Places body (arms_from ls d us ps) → AllWithin body ps
unfolding arms_from
arms_all body [] ls d us o f = tt
arms_all body (p ∷ ps) ls d us o f =
    arms_case (λ arms. Places body arms → AllWithin body (p ∷ ps)) ls d us p.what
    (λ ls' d' us'. arms_from ls' d' us' ps)
    (λ ls' d' s e g. (
      g (lines_of p.what) (next ls d us (arms_from ls' d' (alone s) ps) (first_arm (lines_of p.what) ps ls' d' (alone s)
          (subst (λ z. Within (lines_of p.what) (lines_of z)) e (itself (lines_of p.what))))),
      arms_all body ps ls' d' (alone s) o.1 (λ ss i. g ss (next ls d us (arms_from ls' d' (alone s) ps) i)),
    ))
    (λ g. (
      g (lines_of p.what) (first_arm (lines_of p.what) ps ls d (followed us (alone (body_of p.what))) (subst
          (λ z. Within z (followed us (alone (body_of p.what)))) (sym o.0)
          (past us (alone (body_of p.what)) (itself (alone (body_of p.what)))))),
      arms_all body ps ls d (followed us (alone (body_of p.what))) o.1 g,
    )) f

pub switch_all : (body : Statements) (ps : List Piece) → AllOne ps → Places body (arms_of ps) → AllWithin body ps
switch_all body [] o f = tt
switch_all body (p ∷ ps) o f = by p.what refl f
  where
    by : (w : What) → p.what ≡ w → Places body (arms_of (record { kind = p.kind; what = w } ∷ ps)) →
        AllWithin body (p ∷ ps)
    by (labelled ls d s) e g = (
      g (lines_of p.what) (first_arm (lines_of p.what) ps ls d (alone s)
          (subst (λ z. Within (lines_of p.what) (lines_of z)) e (itself (lines_of p.what)))),
      arms_all body ps ls d (alone s) o.1 g,
    )
    by w e g = (
      g (lines_of p.what) (first_arm (lines_of p.what) ps [] false (alone (body_of w)) (subst
          (λ z. Within z (alone (body_of w))) (sym (o.0 ∙ ap (λ z. alone (body_of z)) e))
          (itself (alone (body_of w))))),
      arms_all body ps [] false (alone (body_of w)) o.1 g,
    )
