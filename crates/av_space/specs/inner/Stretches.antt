-- Links of some tap sites: all maximal stretches of their readings with one producer and one delay, in order.
use Rattle.std.specs.Prelude.{◌≡◌, ℕ, ◌<◌, ◌≤◌, ◌⊎◌, List, ◌++◌, All, AllPairs, Contains}
use Rattle.av_space.specs.declared.cells.Link.{Link}
use Rattle.av_space.specs.declared.stretch.TapReading.{TapReading}
use Rattle.av_space.specs.Links.{IsLinkBefore, IsInLink}

-- ---- of any readings T p j c q d: on the cell p the site j reads in cycle c what the cell q had d cycles before

pub record IsStretchOf (T : ℕ → ℕ → ℕ → ℕ → ℕ → Type 0) (l : Link) : Type 0 where
  pub ordered : l.first ≤ l.last
  pub begins : T l.consumer l.site l.first l.producer l.delay
  pub ends : T l.consumer l.site l.last l.producer l.delay
  pub between : (c q d : ℕ) → l.first ≤ c → c ≤ l.last → T l.consumer l.site c q d → (q ≡ l.producer) × (d ≡ l.delay)

-- no other reading is between the two stretches
abbrev pub AreNeighboursOf : (ℕ → ℕ → ℕ → ℕ → ℕ → Type 0) → Link → Link → Type 0
AreNeighboursOf T a b = (a.consumer ≡ b.consumer) × (a.site ≡ b.site) × ((c q d : ℕ) → a.last < c → c < b.first → T a.consumer a.site c q d → ⊥)

-- one stretch does not go on in the other
abbrev pub AreApartBy : (ℕ → ℕ → ℕ → ℕ → ℕ → Type 0) → Link → Link → Type 0
AreApartBy T a b = AreNeighboursOf T a b → (a.producer ≡ b.producer) × (a.delay ≡ b.delay) → ⊥

-- the links of the tap sites for which In holds
pub record AreLinksIn (T : ℕ → ℕ → ℕ → ℕ → ℕ → Type 0) (In : ℕ → ℕ → Type 0) (links : List Link) : Type 0 where
  pub within : All (λ l. In l.consumer l.site) links
  pub each : All (IsStretchOf T) links
  pub all : (p j c q d : ℕ) → In p j → T p j c q d → (l : Link) × Contains links l × IsInLink p j c l
  pub maximal : AllPairs (AreApartBy T) links
  pub order : AllPairs IsLinkBefore links

-- these have been put behind the old ones
pub record HasLinks (T : ℕ → ℕ → ℕ → ℕ → ℕ → Type 0) (In : ℕ → ℕ → Type 0) (old new : List Link) : Type 0 where
  pub added : List Link
  pub new_is : new ≡ old ++ added
  pub are : AreLinksIn T In added

-- ---- of all sites on one cell, or on all cells below a number

abbrev pub IsOn : ℕ → ℕ → ℕ → Type 0
IsOn p k i = k ≡ p

abbrev pub IsOnBelow : ℕ → ℕ → ℕ → Type 0
IsOnBelow p k i = k < p

-- of the sites of a cell from one number on, up to another
abbrev pub IsBetween : ℕ → ℕ → ℕ → ℕ → ℕ → Type 0
IsBetween p first end k i = (k ≡ p) × (first ≤ i) × (i < end)

-- ---- of the readings of one site on one cell, by cycle

abbrev pub IsAt : ℕ → ℕ → ℕ → ℕ → Type 0
IsAt p j k i = (k ≡ p) × (i ≡ j)

abbrev pub tap_reading : ℕ → ℕ → ℕ → TapReading
tap_reading c q d = record { cycle = c; producer = record { 0 = q }; delay = d }

abbrev pub Told : List TapReading → ℕ → ℕ → ℕ → ℕ → ℕ → Type 0
Told readings p j c q d = Contains readings (tap_reading c q d)

abbrev pub AreByCycle : List TapReading → Type 0
AreByCycle readings = AllPairs (λ a b. a.cycle < b.cycle) readings

-- the stretches of the readings so far: those that have ended, and the last, which may go on
pub record IsOpen (p j : ℕ) (readings : List TapReading) (ended : List Link) (last : Link) : Type 0 where
  pub within : All (λ l. IsAt p j l.consumer l.site) ended
  pub last_within : IsAt p j last.consumer last.site
  pub each : All (IsStretchOf (Told readings)) ended
  pub last_is : IsStretchOf (Told readings) last
  pub all : (c q d : ℕ) → Told readings p j c q d → ((l : Link) × Contains ended l × (l.first ≤ c) × (c ≤ l.last)) ⊎ ((last.first ≤ c) × (c ≤ last.last))
  pub maximal : AllPairs (AreApartBy (Told readings)) ended
  pub last_maximal : All (λ l. AreApartBy (Told readings) l last) ended
  pub order : AllPairs (λ a b. a.last < b.first) ended
  pub last_order : All (λ l. l.last < last.first) ended
  pub latest : All (λ r. r.cycle ≤ last.last) readings

-- the old ones, those that have ended, and the one that may go on
pub record HasOpen (p j : ℕ) (readings : List TapReading) (old new : List Link) (last : Link) : Type 0 where
  pub ended : List Link
  pub new_is : new ≡ old ++ ended
  pub are : IsOpen p j readings ended last
