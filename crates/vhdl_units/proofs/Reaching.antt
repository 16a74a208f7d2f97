-- From a token within open regions on, the unit's close is that of the whole unit.
use Rattle.std.proofs.Common.{◌≡◌, ℕ, ◌+◌, ◌<◌, ◌≤◌, Bool, true, false, List, [], ◌∷◌, ◌++◌, length, refl, sym, subst, arith}
use Rattle.base.specs.declared.design.Role.{Role}
use Rattle.base.specs.declared.design.Role.TheVariants.{End}
use Rattle.vhdl_spec.specs.Units.{role_at, OpensItems, IsGenerateOpener, Closes, IsSingle, Items, nothing, single, items, region}
use Rattle.vhdl_units.specs.declared.class.Known.{Known}
use Rattle.vhdl_units.specs.declared.class.Class.{Class}
use Rattle.vhdl_units.specs.declared.class.Class.TheVariants as class
use Rattle.vhdl_units.specs.Walk.{IsKnown, IsStep}
use Rattle.vhdl_units.specs.Parts.{IsClass, IsUnitClose}
use Rattle.vhdl_spec.proofs.Grammar.{close_word, items_ordered, items_of_single, items_of_opener, items_of_generate, items_of_close}
use Rattle.vhdl_spec.proofs.Files.{in_file}

-- From a token in open regions, outermost first, the unit's close is reached at the last.
abbrev pub ReachesClose : List Role → ℕ → List Bool → Bool → ℕ → ℕ → Type 0
ReachesClose roles start [] inside at close = Items roles start inside at close × Closes roles inside close
ReachesClose roles start (outer ∷ frames) inside at close = (middle : ℕ) × ReachesClose roles start frames inside at middle × Items roles start outer (middle + 1) close × Closes roles outer close

module _ (roles : List Role) (start : ℕ) where
  -- what the innermost region reaches, from one token or another
  reaches_by : (frames : List Bool) (a_inside b_inside : Bool) (a b : ℕ) → ((end : ℕ) → Items roles start a_inside a end × Closes roles a_inside end → Items roles start b_inside b end × Closes roles b_inside end) → (close : ℕ) → ReachesClose roles start frames a_inside a close → ReachesClose roles start frames b_inside b close
  reaches_by [] a_inside b_inside a b by close reaches = by close reaches
  reaches_by (outer ∷ frames) a_inside b_inside a b by close reaches = (reaches.0, reaches_by frames a_inside b_inside a b by reaches.0 reaches.1, reaches.2, reaches.3)

  -- into one more region, and out of it
  out_by : (frames : List Bool) (inner outer : Bool) (a b : ℕ) → ((end : ℕ) → ReachesClose roles start (outer ∷ []) inner a end → Items roles start outer b end × Closes roles outer end) → (close : ℕ) → ReachesClose roles start (frames ++ outer ∷ []) inner a close → ReachesClose roles start frames outer b close
  out_by [] inner outer a b by close reaches = by close reaches
  out_by (first ∷ frames) inner outer a b by close reaches = (reaches.0, out_by frames inner outer a b by reaches.0 reaches.1, reaches.2, reaches.3)

  in_by : (frames : List Bool) (inner outer : Bool) (a b : ℕ) → ((end : ℕ) → Items roles start outer b end × Closes roles outer end → ReachesClose roles start (outer ∷ []) inner a end) → (close : ℕ) → ReachesClose roles start frames outer b close → ReachesClose roles start (frames ++ outer ∷ []) inner a close
  in_by [] inner outer a b by close reaches = by close reaches
  in_by (first ∷ frames) inner outer a b by close reaches = (reaches.0, in_by frames inner outer a b by reaches.0 reaches.1, reaches.2, reaches.3)

  reaches_within : (frames : List Bool) (inside : Bool) (at close : ℕ) → ReachesClose roles start frames inside at close → at < length roles
  reaches_within [] inside at close reaches =
      let ordered = items_ordered reaches.0 in
      let end : role_at roles close ≡ End = close_word roles inside close reaches.1 in
      let there : close < length roles = in_file roles close (λ other. cc) in
      omega arith
  reaches_within (outer ∷ frames) inside at close reaches = reaches_within frames inside at reaches.0 reaches.1

  -- the close of the unit is what is reached from here
  pub record LeadsToClose (frames : List Bool) (inside : Bool) (at : ℕ) : Type 0 where
    pub onward : (close : ℕ) → ReachesClose roles start frames inside at close → IsUnitClose roles start close
    pub back : (close : ℕ) → IsUnitClose roles start close → ReachesClose roles start frames inside at close

  pub leads_start : LeadsToClose [] false start
  leads_start = record { onward = λ close reaches. record { inside = reaches.0; ends = reaches.1 }; back = λ close is. (is.inside, is.ends) }

  module _ (frames : List Bool) (inside : Bool) (at : ℕ) (leads : LeadsToClose frames inside at) where
    pub leads_single : IsSingle roles start inside at → LeadsToClose frames inside (at + 1)
    leads_single one = record {
      onward = λ close reaches. leads.onward close (reaches_by frames inside inside (at + 1) at (λ end p. (single one p.0, p.1)) close reaches);
      back = λ close is. reaches_by frames inside inside at (at + 1) (λ end p. (items_of_single one p.1 p.0, p.1)) close (leads.back close is);
    }

    pub leads_items : OpensItems roles start at → LeadsToClose (frames ++ inside ∷ []) false (at + 1)
    leads_items opens = record {
      onward = λ close reaches. leads.onward close (out_by frames false inside (at + 1) at (λ end p. (items opens p.1.0 p.1.1 p.2, p.3)) close reaches);
      back = λ close is. in_by frames false inside (at + 1) at (λ end p. let nested = items_of_opener opens p.1 p.0 in (nested.close, (nested.inside, nested.closes), nested.rest, p.1)) close (leads.back close is);
    }

    pub leads_region : IsGenerateOpener roles at → LeadsToClose (frames ++ inside ∷ []) true (at + 1)
    leads_region opens = record {
      onward = λ close reaches. leads.onward close (out_by frames true inside (at + 1) at (λ end p. (region opens p.1.0 p.1.1 p.2, p.3)) close reaches);
      back = λ close is. in_by frames true inside (at + 1) at (λ end p. let nested = items_of_generate opens p.1 p.0 in (nested.close, (nested.inside, nested.closes), nested.rest, p.1)) close (leads.back close is);
    }

    pub leads_close : (outer_frames : List Bool) (outer : Bool) → frames ≡ outer_frames ++ outer ∷ [] → Closes roles inside at → LeadsToClose outer_frames outer (at + 1)
    leads_close outer_frames outer is closes = record {
      onward = λ close reaches. leads.onward close (subst (λ (fs : List Bool). ReachesClose roles start fs inside at close) (sym is) (in_by outer_frames inside outer at (at + 1) (λ end p. (at, (nothing refl, closes), p.0, p.1)) close reaches));
      back = λ close unit. out_by outer_frames inside outer at (at + 1) (λ end p. (subst (λ (n : ℕ). Items roles start outer (n + 1) end) (items_of_close closes p.1.0) p.2, p.3)) close (subst (λ (fs : List Bool). ReachesClose roles start fs inside at close) is (leads.back close unit));
    }

    pub leads_to_close : frames ≡ [] → Closes roles inside at → IsUnitClose roles start at
    leads_to_close none closes = leads.onward at (subst (λ (fs : List Bool). ReachesClose roles start fs inside at at) (sym none) (nothing refl, closes))

    pub leads_nowhere : length roles ≤ at → (close : ℕ) → IsUnitClose roles start close → ⊥
    leads_nowhere past close unit = let within = reaches_within frames inside at close (leads.back close unit) in omega arith

    -- a token that doesn't end the unit
    pub leads_step : (class : Class) (next_frames : List Bool) (next_inside : Bool) → IsClass roles start inside at class → IsStep class frames inside next_frames next_inside false → LeadsToClose next_frames next_inside (at + 1)
    leads_step class.Single next_frames next_inside is step = subst (λ (fs : List Bool). LeadsToClose fs next_inside (at + 1)) (sym step.1) (subst (λ (b : Bool). LeadsToClose frames b (at + 1)) (sym step.2) (leads_single is))
    leads_step class.Items next_frames next_inside is step = subst (λ (fs : List Bool). LeadsToClose fs next_inside (at + 1)) (sym step.1) (subst (λ (b : Bool). LeadsToClose (frames ++ inside ∷ []) b (at + 1)) (sym step.2) (leads_items is))
    leads_step class.Region next_frames next_inside is step = subst (λ (fs : List Bool). LeadsToClose fs next_inside (at + 1)) (sym step.1) (subst (λ (b : Bool). LeadsToClose (frames ++ inside ∷ []) b (at + 1)) (sym step.2) (leads_region is))
    leads_step class.Close next_frames next_inside is step = leads_close next_frames next_inside step is

    -- a token that ends the unit
    pub leads_end : (class : Class) (next_frames : List Bool) (next_inside : Bool) → IsClass roles start inside at class → IsStep class frames inside next_frames next_inside true → IsUnitClose roles start at
    leads_end class.Single next_frames next_inside is step = cc
    leads_end class.Items next_frames next_inside is step = cc
    leads_end class.Region next_frames next_inside is step = cc
    leads_end class.Close next_frames next_inside is step = leads_to_close step is

-- what the walk keeps at a token
pub record Walked (roles : List Role) (start : ℕ) (frames : List Bool) (inside : Bool) (known : Known) (at : ℕ) : Type 0 where
  pub known_is : IsKnown roles start at known
  pub leads : LeadsToClose roles start frames inside at
