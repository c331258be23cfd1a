-- Ways out: `break`, `continue` and `return` lead to tasks that fit.
use Rattle.std.proofs.Common.{◌≡◌, ℕ, ℤ, List, [], ◌∷◌, Option, Some, None, refl, sym, subst}
use Rattle.std.specs.Prelude.{unwrap_or}
use Rattle.cl_model.specs.Tree.{Program}
use Rattle.cl_model.specs.Lists.{Each}
use Rattle.cl_model.specs.Calls.{function_at}
use Rattle.cl_model.specs.Task.{Task, Frame, Item}
use Rattle.cl_model.specs.Steps.{behind_break, behind_continue, behind_return}
use Rattle.cl_model_typed.specs.Known.{Known, AreKnown, known_of, HoldsValues}
use Rattle.cl_model_typed.specs.Expected.{runs, evaluates, finishes, peeks, alters, decides, enters, discards}
use Rattle.cl_model_typed.specs.Expected.{keeps, clears, initialises, branches, repeats, tests, selects, switches}
use Rattle.cl_model_typed.specs.Expected.{leaves, End, Ahead, ends, goes_on, returns_to, FitsUntil}
use Rattle.cl_model_typed.proofs.Tasks.{step_ahead, test_ahead}

-- where statements may stand, no task is left at the end, and none is left behind it
abbrev pub IsClosed : End → Type 0
IsClosed end = (tasks : List Task) (f : ℕ) (frames : List Frame) (known base : List Known) →
    end tasks f frames known (Some base) → (tasks ≡ []) × ((left : List Known) → end [] f frames left (Some base))

-- statements may stand there
abbrev pub IsThere : Option (List Known) → Type 0
IsThere None = ⊥
IsThere (Some base) = Unit {0}

-- what statements find
abbrev pub found : Option (List Known) → List Known
found base = unwrap_or base []

abbrev pub an_item : ℕ → List Task → List ℤ → List Frame → Item
an_item n tasks values frames = record { number = n; tasks = tasks; values = values; frames = frames }

-- an item with this number, which fits
abbrev pub Good : Program → End → ℕ → Item → Type 0
Good program end n i = (i.number ≡ n) × FitsUntil program end i

module _ (program : Program) (end : End) (closed : IsClosed end) where
  break_ends : (tasks : List Task) (f : ℕ) (frames : List Frame) (known : List Known) (base : Option (List Known)) →
      IsThere base → end tasks f frames known base →
      Ahead program end (behind_break tasks) f frames (found base) base
  break_ends tasks f frames known None h e = absurd h
  break_ends tasks f frames known (Some base) h e = let c = closed tasks f frames known base e in
      subst (λ ts. Ahead program end (behind_break ts) f frames base (Some base)) (sym c.0) (ends (c.1 base))

  pub break_ahead : {tasks : List Task} {f : ℕ} {frames : List Frame} {known : List Known}
      {base : Option (List Known)} → IsThere base → Ahead program end tasks f frames known base →
      Ahead program end (behind_break tasks) f frames (found base) base
  break_ahead {tasks = tasks} {f = f} {frames = frames} {known = known} {base = base} h (ends e) =
      break_ends tasks f frames known base h e
  break_ahead h (returns_to a) = returns_to a
  break_ahead h (goes_on (runs x) a) = break_ahead h a
  break_ahead h (goes_on (evaluates r x) a) = break_ahead h a
  break_ahead h (goes_on (finishes ts t x) a) = break_ahead h a
  break_ahead h (goes_on peeks a) = break_ahead h a
  break_ahead h (goes_on alters a) = break_ahead h a
  break_ahead h (goes_on (decides t x y) a) = break_ahead h a
  break_ahead h (goes_on (enters ts r x y) a) = break_ahead h a
  break_ahead h (goes_on discards a) = break_ahead h a
  break_ahead h (goes_on (keeps t x) a) = break_ahead h a
  break_ahead h (goes_on (clears x e) a) = break_ahead h a
  break_ahead h (goes_on (initialises x e v) a) = break_ahead h a
  break_ahead h (goes_on (branches x y) a) = break_ahead h a
  break_ahead h (goes_on (repeats s b) a) = a
  break_ahead h (goes_on (tests t x s b) a) = a
  break_ahead h (goes_on (selects x) a) = break_ahead h a
  break_ahead h (goes_on switches a) = a
  break_ahead h (goes_on leaves a) = break_ahead h a

  continue_ends : (tasks : List Task) (f : ℕ) (frames : List Frame) (known : List Known)
      (base : Option (List Known)) → IsThere base → end tasks f frames known base →
      Ahead program end (behind_continue tasks) f frames (found base) base
  continue_ends tasks f frames known None h e = absurd h
  continue_ends tasks f frames known (Some base) h e = let c = closed tasks f frames known base e in
      subst (λ ts. Ahead program end (behind_continue ts) f frames base (Some base)) (sym c.0) (ends (c.1 base))

  pub continue_ahead : {tasks : List Task} {f : ℕ} {frames : List Frame} {known : List Known}
      {base : Option (List Known)} → IsThere base → Ahead program end tasks f frames known base →
      Ahead program end (behind_continue tasks) f frames (found base) base
  continue_ahead {tasks = tasks} {f = f} {frames = frames} {known = known} {base = base} h (ends e) =
      continue_ends tasks f frames known base h e
  continue_ahead h (returns_to a) = returns_to a
  continue_ahead h (goes_on (runs x) a) = continue_ahead h a
  continue_ahead h (goes_on (evaluates r x) a) = continue_ahead h a
  continue_ahead h (goes_on (finishes ts t x) a) = continue_ahead h a
  continue_ahead h (goes_on peeks a) = continue_ahead h a
  continue_ahead h (goes_on alters a) = continue_ahead h a
  continue_ahead h (goes_on (decides t x y) a) = continue_ahead h a
  continue_ahead h (goes_on (enters ts r x y) a) = continue_ahead h a
  continue_ahead h (goes_on discards a) = continue_ahead h a
  continue_ahead h (goes_on (keeps t x) a) = continue_ahead h a
  continue_ahead h (goes_on (clears x e) a) = continue_ahead h a
  continue_ahead h (goes_on (initialises x e v) a) = continue_ahead h a
  continue_ahead h (goes_on (branches x y) a) = continue_ahead h a
  continue_ahead {f = f} {frames = frames} h
      (goes_on {rest = rest} (repeats {base = base} {at = at} {site = site} {step = step} {body = body} {begun = begun}
      s b) a) =
      step_ahead program end f frames at begun step base _ s
      (test_ahead program end f frames at begun site None step body begun base rest tt s b a)
  continue_ahead {f = f} {frames = frames} h
      (goes_on {rest = rest} (tests {base = base} {at = at} {site = site} {test = test} {step = step} {body = body}
      {begun = begun} t x s b) a) =
      step_ahead program end f frames at begun step base _ s
      (test_ahead program end f frames at begun site (Some test) step body begun base rest (t, x) s b a)
  continue_ahead h (goes_on (selects x) a) = continue_ahead h a
  continue_ahead h (goes_on switches a) = continue_ahead h a
  continue_ahead h (goes_on leaves a) = continue_ahead h a

  module _ (n : ℕ) (us : List Task) (vs values : List ℤ) (frame : Frame) where
    -- the item behind a return, which leaves these values
    abbrev Returns : List Task → List Frame → Type 0
    Returns tasks frames = Good program end n (behind_return (an_item n us vs (frame ∷ frames)) tasks values)

    return_ends : (tasks : List Task) (frames : List Frame) (known : List Known) (base : Option (List Known)) →
        IsThere base → AreKnown (known_of (function_at program frame.function).result ∷ found base) values →
        Each (HoldsValues program) (frame ∷ frames) → end tasks frame.function frames known base →
        Returns tasks frames
    return_ends tasks frames known None h k v e = absurd h
    return_ends tasks frames known (Some base) h k v e =
        let c = closed tasks frame.function frames known base e in
        let all = known_of (function_at program frame.function).result ∷ base in
        subst (λ ts. Returns ts frames) (sym c.0)
        (refl, record { variables = v; known = all; values = k; base = Some base; tasks = ends (c.1 all) })

    pub return_fits : {tasks : List Task} {f : ℕ} {frames : List Frame} {known : List Known}
        {base : Option (List Known)} → frame.function ≡ f → IsThere base →
        AreKnown (known_of (function_at program f).result ∷ found base) values →
        Each (HoldsValues program) (frame ∷ frames) → Ahead program end tasks f frames known base →
        Returns tasks frames
    return_fits {tasks = tasks} {frames = frames} {known = known} {base = base} same h k v (ends e) =
        return_ends tasks frames known base h
        (subst (λ g. AreKnown (known_of (function_at program g).result ∷ found base) values) (sym same) k) v
        (subst (λ g. end tasks g frames known base) (sym same) e)
    return_fits {f = f} same h k v (returns_to {base = base} {callers = callers} a) = (
      refl,
      record {
        variables = v.1;
        known = known_of (function_at program f).result ∷ base;
        values = k;
        base = callers;
        tasks = a;
      },
    )
    return_fits same h k v (goes_on (runs x) a) = return_fits same h k v a
    return_fits same h k v (goes_on (evaluates r x) a) = return_fits same h k v a
    return_fits same h k v (goes_on (finishes ts t x) a) = return_fits same h k v a
    return_fits same h k v (goes_on peeks a) = return_fits same h k v a
    return_fits same h k v (goes_on alters a) = return_fits same h k v a
    return_fits same h k v (goes_on (decides t x y) a) = return_fits same h k v a
    return_fits same h k v (goes_on (enters ts r x y) a) = return_fits same h k v a
    return_fits same h k v (goes_on discards a) = return_fits same h k v a
    return_fits same h k v (goes_on (keeps t x) a) = return_fits same h k v a
    return_fits same h k v (goes_on (clears x e) a) = return_fits same h k v a
    return_fits same h k v (goes_on (initialises x e z) a) = return_fits same h k v a
    return_fits same h k v (goes_on (branches x y) a) = return_fits same h k v a
    return_fits same h k v (goes_on (repeats s b) a) = return_fits same h k v a
    return_fits same h k v (goes_on (tests t x s b) a) = return_fits same h k v a
    return_fits same h k v (goes_on (selects x) a) = return_fits same h k v a
    return_fits same h k v (goes_on switches a) = return_fits same h k v a
    return_fits same h k v (goes_on leaves a) = return_fits same h k v a
