-- The tidied code has the loads and stores of the code, site by site.
use Rattle.std.proofs.Common.{◌≡◌, ℕ, ◌+◌, List, [], ◌∷◌, refl, sym, ◌∙◌, ap, zero-add}
use Rattle.lane_code.specs.declared.step.Step.{Step}
use Rattle.lane_code.specs.declared.step.Step.TheVariants.{Load, Store}
use Rattle.lane_code.specs.Program.{PlainCode}
use Rattle.lane_tidy.specs.Accesses.{is_load, is_store, loads_of, stores_of}
use Rattle.lane_tidy.specs.Tidied.{tidied_of}
use Rattle.lane_tidy.proofs.Accessing.{accesses_tidied}
use Rattle.mask_lower.specs.Counts.{load_steps, store_steps}

loads_are : (site : ℕ) (steps : List Step) → load_steps site steps ≡ loads_of site steps
loads_are site [] = refl
loads_are site (Load at of root index to mask ∷ steps) =
    ap (λ n. is_load site (Load at of root index to mask) + n) (loads_are site steps)
loads_are site (x ∷ steps) = loads_are site steps ∙ sym (zero-add (loads_of site steps))

stores_are : (site : ℕ) (steps : List Step) → store_steps site steps ≡ stores_of site steps
stores_are site [] = refl
stores_are site (Store at of root index from mask ∷ steps) =
    ap (λ n. is_store site (Store at of root index from mask) + n) (stores_are site steps)
stores_are site (x ∷ steps) = stores_are site steps ∙ sym (zero-add (stores_of site steps))

pub tidied_loads : (code : PlainCode) (site : ℕ) → load_steps site (tidied_of code).steps ≡ load_steps site code.steps
tidied_loads code site =
    loads_are site (tidied_of code).steps ∙ ((accesses_tidied code.counts code.steps).loads site ∙
    sym (loads_are site code.steps))

pub tidied_stores : (code : PlainCode) (site : ℕ) →
    store_steps site (tidied_of code).steps ≡ store_steps site code.steps
tidied_stores code site =
    stores_are site (tidied_of code).steps ∙ ((accesses_tidied code.counts code.steps).stores site ∙
    sym (stores_are site code.steps))
