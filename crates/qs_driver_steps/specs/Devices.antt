-- The store and the two streams that a command works on.
use Rattle.std.specs.Borrow.{MutBor}
use Rattle.qs_ports.specs.StoreView.{StoreView}
use Rattle.qs_ports.specs.SinkView.{SinkView}
use Rattle.qs_driver_steps.specs.declared.devices.Devices.{Devices}

pub record DevicesView : Type 0 where
  pub store : StoreView
  pub out : SinkView
  pub log : SinkView

-- standard output and standard error
pub record StreamsView : Type 0 where
  pub out : SinkView
  pub log : SinkView

abbrev pub streams : SinkView → SinkView → StreamsView
streams out log = record { out = out; log = log }

abbrev pub streams_of : DevicesView → StreamsView
streams_of d = record { out = d.out; log = d.log }

abbrev pub views_of : StoreView → SinkView → SinkView → DevicesView
views_of store out log = record { store = store; out = out; log = log }

abbrev pub with_streams : StoreView → StreamsView → DevicesView
with_streams store s = views_of store s.out s.log

-- the devices as they are handed to a command
abbrev pub views :
    {S O L : Type 0} → (S → StoreView) → (O → SinkView) → (L → SinkView) → Devices S O L
    → DevicesView
views store_view out_view log_view d =
    views_of (store_view d.store.now) (out_view d.out.now) (log_view d.log.now)

-- what a command leaves behind the three references that it was handed
abbrev pub DevicesLeft : Type 0 → Type 0 → Type 0 → Type 0
DevicesLeft S O L = MutBor S × (MutBor O × (MutBor L × Unit {0}))

-- the devices as a command leaves them
abbrev pub views_left :
    {S O L : Type 0} → (S → StoreView) → (O → SinkView) → (L → SinkView) → DevicesLeft S O L
    → DevicesView
views_left store_view out_view log_view d =
    views_of (store_view d.0.now) (out_view d.1.0.now) (log_view d.1.1.0.now)

-- the two streams alone, and what is left behind them
abbrev pub Streams : Type 0 → Type 0 → Type 0
Streams O L = MutBor O × MutBor L

abbrev pub StreamsLeft : Type 0 → Type 0 → Type 0
StreamsLeft O L = MutBor O × (MutBor L × Unit {0})

-- the streams as they are handed to a part of a command
abbrev pub stream_views :
    {O L : Type 0} → (O → SinkView) → (L → SinkView) → Streams O L → StreamsView
stream_views out_view log_view s = streams (out_view s.0.now) (log_view s.1.now)

-- the streams as such a part leaves them
abbrev pub stream_views_left :
    {O L : Type 0} → (O → SinkView) → (L → SinkView) → StreamsLeft O L → StreamsView
stream_views_left out_view log_view s = streams (out_view s.0.now) (log_view s.1.0.now)
