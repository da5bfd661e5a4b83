-- Two sides that share no target, or no location: each row has its home there, and none on both.
use Rattle.std.proofs.lemmas.Bool.{or_right, or_left, or_from}
use Rattle.std.proofs.Common.{◌≡◌, ◌∙◌, ℕ, true, false, Option, Some, None, List, [], ◌∷◌, ◌++◌, refl, sym}
use Rattle.std.proofs.Common.{ap}
use Rattle.std.specs.List.{AllByRecursion}
use Rattle.std.specs.Option.{option_map_or}
use Rattle.std.proofs.lemmas.List.Folds.{list_any-append}
use Rattle.mon_value.specs.Same.{same_target, same_text}
use Rattle.mon_value.specs.declared.rows.Row.{Row}
use Rattle.mon_value.specs.declared.rows.Target.{Target}
use Rattle.mon_value.specs.declared.schemas.MetricSchema.{MetricSchema}
use Rattle.mon_value.specs.declared.schemas.TargetSchema.{TargetSchema}
use Rattle.mon_value.proofs.SameLemmas.{same_series-Decides, same_text-Decides}
use Rattle.mon_schema.specs.Fits.{fields_fit, fits, fits_both, TellsLocation}
use Rattle.mon_schema.specs.Names.{SchemaLists, metric_named, target_named}
use Rattle.mon_topo.specs.Locations.{location_of}
use Rattle.typed_rows.proofs.FetchedPoints.{row_of_schemas}
use Rattle.typed_rows.proofs.FetchedTrees.{AllFit}
use Rattle.typed_rows.proofs.JoinedRows.{all-map}
use Rattle.mixer.specs.Divisions.{ShareNoLocation, has_location, lies_at, together}
use Rattle.mon_meaning.specs.ReadableSlots.{ShareNoTarget, has_target}
use Rattle.mixer.proofs.LeafHomes.{IsItself, TargetSays, target_field}
use Rattle.mixer.proofs.StemmingPoints.{HasHome}
use Rattle.mixer.proofs.ZoneHomes.{IsLocated, Location, LocationSays, has_location as target_location, location_field}
use Rattle.mon_value.proofs.PlainLemmas.{all_both, not_both, and_both}

-- ---- targets

same_itself : (row : Row) → same_target row.key.target row.key.target ≡ true
same_itself row =
    (and_both (same_target row.key.target row.key.target) _ ((same_series-Decides row.key row.key).1 refl)).0

-- each row's target has a row
targets_there : (rows : List Row) → AllByRecursion (λ row. has_target rows row.key.target ≡ true) rows
targets_there [] = tt
targets_there (row ∷ rows) = (
  or_left (same_target row.key.target row.key.target) (has_target rows row.key.target) (same_itself row),
  all-map (λ other. has_target rows other.key.target ≡ true) (λ other. has_target (row ∷ rows) other.key.target ≡ true)
      rows
      (λ other e. or_right (same_target row.key.target other.key.target) (has_target rows other.key.target) e)
      (targets_there rows),
)

-- a target that has a row on the other side, or none there
abbrev pub Within : List Row → Target → Type 0
Within rows target = has_target rows target ≡ true

abbrev pub Without : List Row → Target → Type 0
Without rows target = has_target rows target ≡ false

pub targets_apart : (ys : List Row) (target : Target) → Without ys target → Within ys target → ⊥
targets_apart ys target out within = not_both (has_target ys target) out within

module _ (held : SchemaLists) where
  abbrev pub TargetHome : (Target → Type 0) → Row → Type 0
  TargetHome P row = HasHome (TargetSays held) held IsItself (target_field held) P row.key.target

  pub targets_out : (xs ys : List Row) → ShareNoTarget xs ys → AllByRecursion (TargetHome (Without ys)) xs
  targets_out xs ys share =
      all-map (λ row. has_target ys row.key.target ≡ false) (TargetHome (Without ys)) xs
      (λ row e. record { home = row.key.target; from = e; is = refl }) share

  pub targets_within : (ys : List Row) → AllByRecursion (TargetHome (Within ys)) ys
  targets_within ys =
      all-map (λ row. has_target ys row.key.target ≡ true) (TargetHome (Within ys)) ys
      (λ row e. record { home = row.key.target; from = e; is = refl }) (targets_there ys)

-- sharing no target with each child is sharing none with all
none_empty : (rows : List Row) → AllByRecursion (λ row. has_target [] row.key.target ≡ false) rows
none_empty [] = tt
none_empty (row ∷ rows) = (refl, none_empty rows)

pub targets_together : (rows : List Row) (children : List (List Row)) → AllByRecursion (ShareNoTarget rows) children
    → ShareNoTarget rows (together children)
targets_together rows [] apart = none_empty rows
targets_together rows (child ∷ children) apart =
    all-map (λ row. (has_target child row.key.target ≡ false) × (has_target (together children) row.key.target ≡ false))
    (λ row. has_target (child ++ together children) row.key.target ≡ false) rows
    (λ row e. list_any-append (λ (other : Row). same_target other.key.target row.key.target) child (together children)
    ∙ or_from (has_target child row.key.target) (has_target (together children) row.key.target) e.0 e.1)
    (all_both (λ row. has_target child row.key.target ≡ false)
    (λ row. has_target (together children) row.key.target ≡ false) rows apart.0
    (targets_together rows children apart.1))

-- ---- locations

-- the schema of a row that fits
record OfSchema (held : SchemaLists) (row : Row) : Type 0 where
  schema : TargetSchema
  named : target_named row.key.target.schema held.targets ≡ Some schema
  fit : fields_fit schema.fields row.key.target.fields ≡ true

of_schema_by : (held : SchemaLists) (row : Row) (t : Option TargetSchema) (m : Option MetricSchema)
    → target_named row.key.target.schema held.targets ≡ t → fits_both t m row ≡ true → OfSchema held row
of_schema_by held row None m e fit = absurd cc
of_schema_by held row (Some target) None e fit = absurd cc
of_schema_by held row (Some target) (Some metric) e fit =
    record { schema = target; named = e; fit = (row_of_schemas target metric row fit).series.target_fields }

of_schema : (held : SchemaLists) (row : Row) → fits held row ≡ true → OfSchema held row
of_schema held row fit =
    of_schema_by held row (target_named row.key.target.schema held.targets) (metric_named row.key.metric held.metrics)
    refl fit

abbrev pub WithinLocations : SchemaLists → List Row → List ℕ → Type 0
WithinLocations held rows location = has_location held rows location ≡ true

abbrev pub WithoutLocations : SchemaLists → List Row → List ℕ → Type 0
WithoutLocations held rows location = has_location held rows location ≡ false

pub locations_apart : (held : SchemaLists) (ys : List Row) (location : List ℕ) → WithoutLocations held ys location
    → WithinLocations held ys location → ⊥
locations_apart held ys location out within = not_both (has_location held ys location) out within

module _ (held : SchemaLists) (tell : AllByRecursion TellsLocation held.targets) where
  row_location : (row : Row) → fits held row ≡ true → Location (location_of held row.key.target)
  row_location row fit =
      let of = of_schema held row fit in
      target_location held tell of.schema row.key.target of.named of.fit

  abbrev pub LocationHome : (List ℕ → Type 0) → Row → Type 0
  LocationHome P row = HasHome (LocationSays held) held (IsLocated held) (location_field held tell) P row.key.target

  pub locations_out : (xs ys : List Row) → AllFit held xs → ShareNoLocation held xs ys
      → AllByRecursion (LocationHome (WithoutLocations held ys)) xs
  locations_out xs ys fit share =
      all-map (λ (row : Row). (fits held row ≡ true)
      × (option_map_or (has_location held ys) (location_of held row.key.target) false ≡ false))
      (LocationHome (WithoutLocations held ys)) xs
      (λ row p.
      let own = row_location row p.0 in
      record {
        home = own.text;
        from = sym (ap (λ o. option_map_or (has_location held ys) o false) own.is) ∙ p.1;
        is = own.is;
      })
      (all_both (λ (row : Row). fits held row ≡ true) _ xs fit share)

  lies_there : (row : Row) (location : List ℕ) → location_of held row.key.target ≡ Some location
      → lies_at held location row ≡ true
  lies_there row location e =
      ap (λ o. option_map_or (same_text location) o false) e ∙ (same_text-Decides location location).1 refl

  -- each row's location has a row
  locations_there : (rows : List Row)
      → AllByRecursion (λ row. (location : List ℕ) → location_of held row.key.target ≡ Some location
      → has_location held rows location ≡ true) rows
  locations_there [] = tt
  locations_there (row ∷ rows) = (
    (λ location e. or_left (lies_at held location row) (has_location held rows location)
        (lies_there row location e)),
    all-map (λ other. (location : List ℕ) → location_of held other.key.target ≡ Some location
        → has_location held rows location ≡ true)
        (λ other. (location : List ℕ) → location_of held other.key.target ≡ Some location
        → has_location held (row ∷ rows) location ≡ true) rows
        (λ other there location e. or_right (lies_at held location row) (has_location held rows location)
        (there location e)) (locations_there rows),
  )

  pub locations_within : (ys : List Row) → AllFit held ys
      → AllByRecursion (LocationHome (WithinLocations held ys)) ys
  locations_within ys fit =
      all-map (λ (row : Row). (fits held row ≡ true)
      × ((location : List ℕ) → location_of held row.key.target ≡ Some location → has_location held ys location ≡ true))
      (LocationHome (WithinLocations held ys)) ys
      (λ row p.
      let own = row_location row p.0 in
      record { home = own.text; from = p.1 own.text own.is; is = own.is })
      (all_both (λ (row : Row). fits held row ≡ true) _ ys fit (locations_there ys))

none_located_by : (o : Option (List ℕ)) → option_map_or (λ (location : List ℕ). false) o false ≡ false
none_located_by None = refl
none_located_by (Some location) = refl

no_locations : (held : SchemaLists) (rows : List Row)
    → AllByRecursion (λ row. option_map_or (has_location held []) (location_of held row.key.target) false ≡ false) rows
no_locations held [] = tt
no_locations held (row ∷ rows) = (none_located_by (location_of held row.key.target), no_locations held rows)

apart_by : (held : SchemaLists) (child rest : List Row) (o : Option (List ℕ))
    → option_map_or (has_location held child) o false ≡ false → option_map_or (has_location held rest) o false ≡ false
    → option_map_or (has_location held (child ++ rest)) o false ≡ false
apart_by held child rest None e f = refl
apart_by held child rest (Some location) e f =
    list_any-append (lies_at held location) child rest
    ∙ or_from (has_location held child location) (has_location held rest location) e f

pub locations_together : (held : SchemaLists) (rows : List Row) (children : List (List Row))
    → AllByRecursion (ShareNoLocation held rows) children → ShareNoLocation held rows (together children)
locations_together held rows [] apart = no_locations held rows
locations_together held rows (child ∷ children) apart =
    all-map (λ (row : Row). (option_map_or (has_location held child) (location_of held row.key.target) false ≡ false)
    × (option_map_or (has_location held (together children)) (location_of held row.key.target) false ≡ false))
    (λ (row : Row). option_map_or (has_location held (child ++ together children)) (location_of held row.key.target)
    false ≡ false) rows
    (λ row e. apart_by held child (together children) (location_of held row.key.target) e.0 e.1)
    (all_both (λ (row : Row). option_map_or (has_location held child) (location_of held row.key.target) false ≡ false)
    _ rows apart.0 (locations_together held rows children apart.1))
