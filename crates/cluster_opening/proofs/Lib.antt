mod OpenedCluster
mod OpenedNodes
mod OpenedNotes
mod OpenedOver
mod OpenedStores
mod Pushed
