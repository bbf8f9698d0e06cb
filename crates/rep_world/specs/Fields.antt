-- The fields of a world, and what they stand for: this project's own.
use Rattle.std.specs.Prelude.{◌≡◌, ℕ, ◌<◌, Bool, true, false, List, All, None}
use Rattle.rep_disk.specs.Disk.{IsOwnImage, last_moment}
use Rattle.rep_disk.specs.Memory.{Memory, memory_shown, state_at}
use Rattle.rep_disk.specs.Record.{image_of}
use Rattle.rep_disk.specs.declared.image.Image.{Image}
use Rattle.rep_wire.specs.Request.{IsRequest}
use Rattle.rep_wire.specs.declared.request.Request.{Request}
use Rattle.rep_wire.specs.declared.reply.Slip.{Slip}
use Rattle.rep_site.specs.Site.{IsSite}
use Rattle.rep_site.specs.declared.site.Site.{Site}
use Rattle.rep_store.specs.State.{State, IsSettledOn}
use Rattle.sure_disk.specs.Sure.{sure_shown}
use Rattle.rep_world.specs.World.{World, IsWorld}
use Rattle.rep_world.specs.Events.{WhileUp}
use Rattle.rep_world.specs.declared.dial.Dial.{Dial}
use Rattle.rep_world.specs.declared.naming.Naming.{Naming}
use Rattle.rep_world.specs.declared.recorder.Recorder.{Recorder}
use Rattle.rep_world.specs.declared.recorder.Recorder.TheVariants.{Up, Down}

abbrev pub is_up : Recorder → Bool
is_up (Up store) = true
is_up (Down disk) = false

abbrev pub disk_of : Recorder → Memory
disk_of (Up store) = store.disk
disk_of (Down disk) = disk

-- the world with these parts
abbrev pub world_of : Site → List Request → List Naming → List Slip → Recorder → World
world_of site sent named issued recorder = record {
  site = site;
  sent = sent;
  named = named;
  issued = issued;
  disk = disk_of recorder;
  up = is_up recorder;
}

-- the store is the site's, and goes on
pub record Runs (site : Site) (store : State Memory Dial) : Type 0 where
  pub of_site : store.site ≡ site
  pub limit : store.limit ≡ site.last_nsr
  pub offset : store.offset ≡ site.offset
  pub running : store.stopped ≡ None
  pub settled : IsSettledOn store.history (sure_shown store.disk)
  pub own : IsOwnImage (sure_shown store.disk)

abbrev pub RunsWhileUp : Site → Recorder → Type 0
RunsWhileUp site (Up store) = Runs site store
RunsWhileUp site (Down disk) = Unit {0}

-- a recorder of some site
abbrev pub RunsForSome : Recorder → Type 0
RunsForSome recorder = (site : Site) × RunsWhileUp site recorder

-- what a world keeps
pub record IsKept (site : Site) (sent : List Request) (named : List Naming) (issued : List Slip) (recorder : Recorder) : Type 0 where
  pub is_site : IsSite site
  pub asked : All IsRequest sent
  pub runs : RunsWhileUp site recorder
  pub world : IsWorld (world_of site sent named issued recorder)

-- the bytes are this image of now, of which there is one while the recorder is up
pub record IsImageNow (image : Image) (recorder : Recorder) (left : List ℕ) : Type 0 where
  pub early : (disk_of recorder).moment < last_moment
  pub named : WhileUp (is_up recorder) (left ≡ (disk_of recorder).bytes)
      (left ≡ image_of image (state_at (disk_of recorder) (disk_of recorder).moment))
  pub allowed : (memory_shown (disk_of recorder)).may_leave (disk_of recorder).moment left
